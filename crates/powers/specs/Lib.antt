pub mod EvaluationOf
