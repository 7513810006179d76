mod Theorems
mod Retelling
