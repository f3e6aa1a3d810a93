-- What stops a plan, passed on for the crates above.
pub use Rattle.plan_edit.specs.declared.Unplanned.{Unplanned}
pub use Rattle.plan_edit.specs.declared.Unplanned.TheVariants.{Refused, Overlap}
