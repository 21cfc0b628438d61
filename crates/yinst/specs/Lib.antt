pub mod Locating
pub mod Rows
pub use Rattle.yinst_path.specs.Applying
pub use Rattle.yinst_path.specs.EditView
pub use Rattle.yinst_tree.specs.Told
pub use Rattle.yinst_tree.specs.View
