pub mod ClassesHeld
