mod PartsTaken
