pub mod CurveLine
