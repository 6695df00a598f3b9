-- The worked cases that are proved from the definitions: document 01's cases (`Cases`), those of repetition
-- (`RepetitionCases`), of checking and writing (`CheckCases`), of padded numbers (`PaddingCases`), of word rules (`WordCases`), of tables
-- (`TableCases`), of the recogniser (`RecogniserCases`) and of unfinished branches (`UnfinishedCases`). That every row holds is in `laws`.
pub mod Cases
pub mod RepetitionCases
pub mod CheckCases
pub mod PaddingCases
pub mod WordCases
pub mod TableCases
pub mod RecogniserCases
pub mod UnfinishedCases
