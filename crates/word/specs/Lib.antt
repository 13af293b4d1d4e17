pub mod Word
