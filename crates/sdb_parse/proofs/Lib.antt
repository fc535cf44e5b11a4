mod CompleteLemmas
pub mod ComputedLemmas
mod ConditionComplete
mod ConditionLemmas
mod ConditionSound
mod CursorLemmas
mod EnclosedLemmas
mod JudgedLemmas
mod LawfulLemmas
mod LetterLemmas
mod LexedLemmas
mod LineComplete
mod LineSound
mod ListedLemmas
pub mod MeaningLemmas
mod PatternLemmas
mod PieceLemmas
mod PredicateComplete
mod PredicateSound
mod PrintedConditions
mod PrintedLaws
mod PrintedLemmas
mod PrintedLines
mod PrintedParts
mod ReadLemmas
mod SignLemmas
mod SoundLemmas
mod TermLemmas
