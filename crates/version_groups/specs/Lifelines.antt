-- The lifelines of tables.
pub use Rattle.smo_ops_versions_spec.specs.Lifelines.{Lifeline, last_after, line_after, line_begun}
pub use Rattle.smo_ops_versions_spec.specs.Lifelines.{made_tables}
pub use Rattle.smo_ops_versions_spec.specs.Lifelines.{lifelines_after, lifelines_from, lifelines_of}
pub use Rattle.smo_ops_versions_spec.specs.Lifelines.{lifeline_columns}
pub use Rattle.smo_ops_versions_spec.specs.Lifelines.{is_up_to, covers, first_place, place_in}
pub use Rattle.smo_ops_versions_spec.specs.Lifelines.{Named}
pub use Rattle.smo_ops_versions_spec.specs.Lifelines.{size_named, line_named, NamesLifelines}
