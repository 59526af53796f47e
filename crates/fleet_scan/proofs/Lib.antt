pub mod Keys
mod KeyByKey
mod Parts
mod Folds
mod Steps
mod KeyTaken
mod Calls
mod Ranged
