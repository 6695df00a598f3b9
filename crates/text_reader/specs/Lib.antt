-- What reading a text by a sheet comes to (`Reading`), the program's line (`Program`), and that what it loads is enough (`ProgramLaws`).
pub mod Reading
pub mod Program
