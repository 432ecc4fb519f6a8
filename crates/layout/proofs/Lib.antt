-- Laws of words and targets as they are laid.
pub mod WordLaws
pub mod GoalLaws
pub mod LineLaws
