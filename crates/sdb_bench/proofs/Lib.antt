mod GivenLemmas
mod KeyLemmas
mod NewLemmas
mod OpenLemmas
mod PlayLemmas
mod StepLemmas
mod SumLemmas
mod TallyLemmas
