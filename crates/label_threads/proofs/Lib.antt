mod LabelLemmas
mod Shared
