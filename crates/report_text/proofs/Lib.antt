pub mod ApartLaws
pub mod CellLemmas
pub mod EndLemmas
pub mod FormLemmas
pub mod PlainLemmas
pub mod ReadLemmas
pub mod ReportLemmas
pub mod TextLemmas
