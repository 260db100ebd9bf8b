pub mod FixedTargets
pub mod Stages
pub mod Scenes
pub mod Solver
pub mod FirstImpact
