mod Ways
mod Layers
mod Eights
mod UnderMasks
mod Nine
