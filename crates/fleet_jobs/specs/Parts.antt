-- What contracts see of specs, contexts and jobs.
pub mod SpecParts
pub mod ContextParts
pub mod JobParts
