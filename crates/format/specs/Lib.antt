-- Records and the names of basic types.
pub mod Records
pub mod Names
