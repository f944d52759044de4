pub mod FrameLemmas
pub mod WindowLemmas
pub mod ReaderLemmas
pub mod WriterLemmas
pub mod BufferLemmas
