-- What other crates cite.
mod Going
