pub mod Layers
pub mod Missing
pub mod Laws
