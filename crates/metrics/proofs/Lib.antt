pub mod ChainLaws
pub mod StepLaws
pub mod CutLaws
pub mod ExactLaws
pub mod DistanceLaws
pub mod Named
