pub mod Marks
pub mod MeantNodes
pub mod ReferenceEdges
pub mod MadeTypes
pub mod MadeView
pub mod MeaningsView
pub mod ModulesView
pub mod TypesView
