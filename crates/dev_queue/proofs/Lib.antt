pub mod EnterLemmas
