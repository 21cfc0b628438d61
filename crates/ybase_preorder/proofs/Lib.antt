pub mod RowLemmas
pub mod TableLemmas
pub mod LayoutLemmas
pub mod LabelLemmas
pub mod ChildrenLemmas
pub mod NumberLemmas
