pub mod TrialRuns
