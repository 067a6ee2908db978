-- What the functions inside agree on; the public contract cites the definitions of crate `lustre`.
pub mod Inner
