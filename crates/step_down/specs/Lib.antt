pub mod StepDown
