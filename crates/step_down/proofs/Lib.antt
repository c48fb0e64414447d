pub mod StepDownLaw
