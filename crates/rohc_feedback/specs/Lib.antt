pub mod Fields
pub mod Element
pub mod Split
pub mod Laws
pub use Rattle.rohc_frame.specs.Header
