mod BytesLemmas
