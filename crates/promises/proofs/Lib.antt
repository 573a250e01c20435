pub mod Learning
pub mod TextToText
pub mod OneText
pub mod OneLine
pub mod Exactly
pub mod NoRoom
pub mod Instances
pub mod BothReaders
