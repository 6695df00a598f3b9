-- What the exported functions leave in `out` and in the lent buffers. Their contracts cite it, so it must be believed.
pub mod Out
