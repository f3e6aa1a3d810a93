-- A share, passed on for the crates above.
pub use Rattle.share_rows.specs.declared.Thousandths.{Thousandths}
