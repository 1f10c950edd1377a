mod FormatLemmas
mod ShuffleLemmas
mod TransposeLemmas
