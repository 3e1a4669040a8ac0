mod AllFeeders
mod FeederJoin
mod ShareInvariant
mod MarkedLists
mod ShareLines
mod ShareGrowth
mod ListUnion
mod ExampleFeeders
