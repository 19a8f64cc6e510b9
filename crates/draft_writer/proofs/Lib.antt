mod Recorded
