mod AllPasses
