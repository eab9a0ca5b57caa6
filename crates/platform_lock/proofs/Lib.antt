mod CountLemmas
mod ServedLemmas
