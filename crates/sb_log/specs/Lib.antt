pub mod PieceLines
pub mod Reader
pub mod Reading
