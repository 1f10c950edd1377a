mod AspectLemmas
mod ResultLemmas
