-- Why a call is refused.
--     Numbers  the number of a refusal, and what is answered or refused as the definition has it
pub mod Numbers
