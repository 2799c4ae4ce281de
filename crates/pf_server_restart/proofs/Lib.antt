mod RecordReads
mod StateTests
mod NewLives
mod NextImages
mod RestartedStores
