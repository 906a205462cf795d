pub mod ImageIn
