-- Laws on asking for a reading.
mod AskingLaws
