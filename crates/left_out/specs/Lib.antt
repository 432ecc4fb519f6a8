-- Words without one of them.
pub mod LeftOut
