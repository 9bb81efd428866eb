mod ListLemmas
mod KnownLemmas
mod LawLemmas
mod GroupLemmas
mod ManyLemmas
mod RoomLemmas
mod WindowLemmas
