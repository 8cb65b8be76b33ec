mod BenchLemmas
