pub mod FirstGroup
