mod FieldLemmas
