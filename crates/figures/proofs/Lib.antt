pub mod NoOpening
