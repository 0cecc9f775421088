pub mod FieldColumns
pub mod Left
pub mod PieceLines
