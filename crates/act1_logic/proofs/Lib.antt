pub mod OnSets
