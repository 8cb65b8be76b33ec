mod EndsLemmas
mod ExportLemmas
mod FilesLemmas
mod LargeLemmas
mod LratLemmas
mod NamesLemmas
mod ScriptLemmas
mod WhyLemmas
pub mod KeptLemmas
pub mod RowsLemmas
pub mod RunsLemmas
