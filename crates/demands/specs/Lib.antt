-- The three demands, which is where to begin reading; sheet D's image, byte for byte; and demand 2 as it was before request [8]. That the
-- demands hold, and what follows from them, is in `laws`.
pub mod Demands
pub mod ImageD
pub mod Before
