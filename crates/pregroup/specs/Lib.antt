-- The pregroup calculus, in the order in which it is read: types, the order, steps and chains, what vanishes, the tests that
-- antt computes, and how the code holds simple types.
pub mod Types
pub mod Order
pub mod Steps
pub mod Vanish
pub mod Tests
pub mod Held
