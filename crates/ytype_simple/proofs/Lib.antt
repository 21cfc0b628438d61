pub mod RowLemmas
pub mod LimitLemmas
pub mod IdentityLemmas
mod ExpressionLemmas
